pub mod Theorems
-- Laws that the proofs of this crate's functions share.
pub mod Laws
pub mod Placing
pub mod Converting
pub mod Growing
