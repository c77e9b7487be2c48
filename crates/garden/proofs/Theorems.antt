pub mod Examples
pub mod Alone
pub mod Frames
pub mod Faults
pub mod Built
pub mod Standing
pub mod Pairs
