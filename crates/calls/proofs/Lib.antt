pub mod Untouched
pub mod ErrorRows
pub mod Modes
pub mod ByBytes
pub mod Located
pub mod Orders
pub mod SortedRows
pub mod Chains
