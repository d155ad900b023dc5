pub mod Narrowed
pub mod Counts
pub mod Faithful
