pub mod Filled
pub mod GroupWords
pub mod NextWord
pub mod Sizing
