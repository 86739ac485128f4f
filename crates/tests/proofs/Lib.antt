pub mod Steps
pub mod Entries
pub mod Fields
pub mod Whole
