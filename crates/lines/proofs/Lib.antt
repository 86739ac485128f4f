pub mod Puts
pub mod RowLines
pub mod Long
pub mod Whole
pub mod Calls
