pub mod Job
pub mod Words
pub mod Clap
pub mod Lines
