pub mod Rows
pub mod Listing
pub mod Conditions
pub mod Limits
pub mod Laws
