pub mod Entry
pub mod Batch
pub mod Code
