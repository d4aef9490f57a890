pub mod Acts
pub mod Calls
pub mod Folders
pub mod Listing
pub mod Memory
pub mod Reads
pub mod Steps
