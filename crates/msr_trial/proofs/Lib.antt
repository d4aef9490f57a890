pub mod Lined
pub mod Packed
pub mod Told
pub mod Walked
