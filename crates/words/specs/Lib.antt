pub mod Limits
pub mod Lent
pub mod Outcome
pub mod Counted
pub mod Code
pub mod Numbers
