pub mod Alike
pub mod Queues
pub mod Doing
pub mod Law
pub mod Once
