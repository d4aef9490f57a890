pub mod Packed
pub mod Beside
pub mod Compared
pub mod Agreements
pub mod Texts
