pub mod Theorems
-- Laws that the proofs of this crate's functions share.
pub mod Taking
pub mod Commands
pub mod Cloning
pub mod Carried
pub mod Copying
pub mod Paths
