pub mod Comparisons
pub mod Endings
pub mod Inputs
pub mod Walks
pub mod Words
