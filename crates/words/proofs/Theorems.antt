pub mod Tests
pub mod Parts
pub mod Faults
pub mod Counted
