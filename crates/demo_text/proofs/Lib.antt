mod Table
mod Lines
mod Codes
mod AtomKinds
mod Front
mod Computed
pub mod Whole
