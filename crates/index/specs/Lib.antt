pub mod Index
pub mod Promises
