pub mod Sorts
pub mod Placing
pub mod Calls
pub mod Fitting
