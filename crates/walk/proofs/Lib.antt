pub mod Theorems
pub mod Laws
pub mod Parts
pub mod Running
