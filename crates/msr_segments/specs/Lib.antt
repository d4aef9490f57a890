pub mod Spans
pub mod Segments
pub mod Joining
pub mod Cuts
pub mod Unequals
