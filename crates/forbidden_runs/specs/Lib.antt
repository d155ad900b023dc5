pub mod Forbidden
pub mod Texts
pub mod Laws
