pub mod Bytes
pub mod Runs
pub mod Endings
pub mod Requests
