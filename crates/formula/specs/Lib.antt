pub mod Meaning
pub mod Check
pub mod Down
pub mod Turns
pub mod Reducing
pub mod Tail
pub mod Code
pub mod TailCode
