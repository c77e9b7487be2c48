pub mod Check
pub mod Down
pub mod Turns
pub mod Flat
pub mod Reduce
pub mod Held
pub mod Tail
pub mod Examples
