pub mod Finds
pub mod Walks
pub mod TakenSides
pub mod Trees
