pub mod Actions
pub mod Crews
pub mod Replaying
pub mod Sound
pub mod Walking
