pub mod Asked
pub mod Choice
pub mod Days
pub mod Hints
pub mod Known
pub mod Tasks
pub mod Texts
