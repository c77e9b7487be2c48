pub mod Order
pub mod Insert
pub mod Fair
pub mod Words
pub mod Lookup
pub mod Put
pub mod Single
pub mod Examples
