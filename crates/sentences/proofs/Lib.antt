pub mod Fine
pub mod Standing
pub mod Reached
pub mod Sentences
pub mod Repeats
pub mod Once
