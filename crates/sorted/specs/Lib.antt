pub mod Sort
pub mod Sorted
pub mod Promises
