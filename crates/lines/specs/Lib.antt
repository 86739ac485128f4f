pub mod Report
pub mod Bytes
pub mod Out
