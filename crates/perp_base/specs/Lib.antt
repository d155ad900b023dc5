pub mod Adapted
pub mod Bytes
pub mod Causes
pub mod Last
pub mod Memory
pub mod Options
pub mod Turns
pub mod View
