pub mod Moves
pub mod Names
pub mod Phases
pub mod Promise
pub mod Stamped
pub mod Work
