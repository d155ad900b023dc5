mod Numbers
pub mod Rows
mod Turns
mod Parse
mod JobLemmas
mod CommandLemmas
mod Iterations
mod Lined
pub mod Replays
