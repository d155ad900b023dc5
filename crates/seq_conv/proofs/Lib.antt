pub mod Numbering
pub mod Stores
