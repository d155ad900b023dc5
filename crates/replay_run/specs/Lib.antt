pub mod Players
pub mod Turns
