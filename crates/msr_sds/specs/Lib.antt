pub mod Parts
pub mod SdsPath
pub mod Separators
pub mod Folders
