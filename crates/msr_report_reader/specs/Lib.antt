pub mod Fields
pub mod Content
pub mod Fault
pub mod LastLine
pub mod TextFault
pub mod Draft
pub mod Reading
pub mod Laws
