pub mod Theorems
pub mod Laws
mod Keys
mod Index
