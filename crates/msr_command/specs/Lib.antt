pub mod Comparing
pub mod Ends
pub mod Hints
pub mod Named
pub mod Told
pub mod Turns
