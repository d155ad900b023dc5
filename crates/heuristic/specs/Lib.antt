pub mod Plan
pub mod RunPicks
pub mod Steps
