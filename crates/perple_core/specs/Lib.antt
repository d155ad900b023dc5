pub mod Texts
pub mod Due
pub mod Counting
pub mod Top
pub mod Answering
pub mod Headline
pub mod Laws
