pub mod Layout
pub mod Table
pub mod State
pub mod Rising
pub mod Values
pub mod Kept
pub mod Where
