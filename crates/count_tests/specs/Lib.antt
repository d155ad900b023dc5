pub mod RingLogs
pub mod Tried
pub mod TwoLogs
