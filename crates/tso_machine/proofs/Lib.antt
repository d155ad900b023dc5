mod Examples
pub mod Frames
pub mod Parts
pub mod ReadEvents
pub mod Rising
pub mod Runs
pub mod Sources
pub mod Slots
pub mod Worked
