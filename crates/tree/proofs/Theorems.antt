pub mod Examples
pub mod Faults
pub mod Counted
pub mod Built
pub mod Collide
pub mod Appended
