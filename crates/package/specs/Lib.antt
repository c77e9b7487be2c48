pub mod Bytes
pub mod Package
pub mod Code
