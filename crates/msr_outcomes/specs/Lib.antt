pub mod Outcomes
pub mod Entries
pub mod Known
pub mod Lines
pub mod Summary
