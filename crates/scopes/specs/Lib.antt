pub mod Walk
pub mod Resolve
pub mod Twice
pub mod Clash
pub mod Lookup
pub mod Calls
pub mod Promises
pub mod Answers
