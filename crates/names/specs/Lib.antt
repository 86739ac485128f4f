pub mod Promises
pub mod Name
pub mod Number
