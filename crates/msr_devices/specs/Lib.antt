pub mod Device
pub mod ReadBuffer
pub mod WriteBuffer
