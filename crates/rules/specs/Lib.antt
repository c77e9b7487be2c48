pub mod Rules
pub mod Sheet
pub mod Code
pub mod Order
pub mod Every
