pub mod Seen
pub mod Decided
pub mod Shown
pub mod Conjunctions
pub mod Fronts
