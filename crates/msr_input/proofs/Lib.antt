pub mod Records
pub mod Strict
pub mod SettledRefusals
pub mod OneReading
pub mod Rows
pub mod RecordsThatCame
pub mod Histories
pub mod BytesAhead
