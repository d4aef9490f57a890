pub mod Correction
pub mod Area
pub mod NumbersLeft
pub mod Records
pub mod ViewFields
pub mod Views
