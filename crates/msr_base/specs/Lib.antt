pub mod Faults
pub mod RecordLength
pub mod Lengths
pub mod Storage
pub mod Kinds
pub mod Forms
