pub mod Grow
pub mod Code
