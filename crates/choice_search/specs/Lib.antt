pub mod Graph
pub mod Trees
pub mod Answers
pub mod Laws
pub mod Search
