pub mod Orders
pub mod Course
pub mod Logs
pub mod Laws
