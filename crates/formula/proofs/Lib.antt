pub mod Theorems
pub mod Reducing
pub mod Weaving
pub mod Checking
