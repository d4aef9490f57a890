pub mod Input
pub mod Outlines
pub mod Records
pub mod Reading
pub mod Rows
pub mod Steps
