pub mod Layout
pub mod Asked
pub mod Stands
pub mod Builder
pub mod Reading
pub mod Back
