pub mod Ways
pub mod Fitting
pub mod RowLists
