pub mod Days
pub mod Entries
pub mod Lines
pub mod Walk
