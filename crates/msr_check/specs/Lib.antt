pub mod HoldsBoth
pub mod Known
pub mod Next
pub mod Judged
