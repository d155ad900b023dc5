pub mod KeptKinds
pub mod KindLemmas
pub mod Reading
