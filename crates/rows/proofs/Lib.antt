pub mod Appends
pub mod Parts
pub mod Reading
pub mod Words
