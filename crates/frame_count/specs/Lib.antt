pub mod Block
pub mod Count
pub mod Counted
pub mod Known
pub mod Row
pub mod Rows
pub mod RunLogs
