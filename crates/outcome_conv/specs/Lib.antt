pub mod Choices
pub mod Conditions
pub mod Conds
pub mod Hits
pub mod Holds
pub mod Laws
pub mod Picks
pub mod Plans
