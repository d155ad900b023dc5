pub mod Edges
pub mod Trees
pub mod Sources
pub mod Laws
pub mod Moments
