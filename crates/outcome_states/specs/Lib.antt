pub mod Registers
pub mod Counting
pub mod States
pub mod Text
pub mod Outcomes
pub mod Laws
