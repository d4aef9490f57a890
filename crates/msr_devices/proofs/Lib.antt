pub mod Chaining
pub mod KnownBytes
pub mod Limited
pub mod Filling
