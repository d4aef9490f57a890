pub mod Comes
pub mod Following
pub mod Files
pub mod Naming
pub mod Promise
pub mod Making
pub mod Stamp
