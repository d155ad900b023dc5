pub mod Ending
pub mod Field
pub mod Form
pub mod Number
pub mod Quantified
pub mod Request
pub mod View
