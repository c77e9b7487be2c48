pub mod Every
pub mod Proper
pub mod Words
pub mod Examples
