pub mod Held
pub mod Valued
pub mod Counted
pub mod Listed
pub mod Written
pub mod Apart
