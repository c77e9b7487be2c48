pub mod Theorems
pub mod Laws
pub mod Batching
pub mod Determined
mod Whole
