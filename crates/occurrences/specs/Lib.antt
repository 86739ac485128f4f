pub mod Spots
pub mod Occurrences
pub mod Promises
pub mod Answers
