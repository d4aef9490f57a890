pub mod Proper
pub mod Text
pub mod Writing
pub mod Json
