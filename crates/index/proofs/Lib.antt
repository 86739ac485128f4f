pub mod Rows
pub mod Filling
pub mod Along
pub mod Tests
pub mod Fitting
