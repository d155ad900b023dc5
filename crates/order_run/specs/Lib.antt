pub mod Along
pub mod Course
