pub mod Accepting
pub mod RowsHeld
pub mod Standing
