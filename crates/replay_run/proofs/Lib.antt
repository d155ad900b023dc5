pub mod Playing
pub mod Sounded
pub mod Stepping
pub mod Turned
