pub mod Found
pub mod Rules
