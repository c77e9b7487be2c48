pub mod Garden
pub mod Code
