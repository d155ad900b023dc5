pub mod EachLog
pub mod PairsOfLogs
pub mod Trying
