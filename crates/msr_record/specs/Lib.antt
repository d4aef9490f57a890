pub mod Written
pub mod Decided
pub mod Opened
pub mod Output
pub mod Writing
