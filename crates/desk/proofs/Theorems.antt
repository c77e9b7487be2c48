pub mod Starred
pub mod Examples
pub mod Promises
pub mod Ordered
pub mod Packages
pub mod Batches
