pub mod ChannelLines
pub mod FirstDay
