pub mod Along
pub mod Finds
pub mod Groups
pub mod OfRuns
pub mod Ordered
pub mod Rounding
