pub mod Theorems
pub mod Laws
mod Items
mod Tail
mod Index
pub mod TakenOff
