pub mod Counting
pub mod Loose
pub mod Laws
