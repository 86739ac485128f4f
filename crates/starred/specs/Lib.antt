pub mod Encode
pub mod Starred
pub mod Calls
pub mod Printed
pub mod Renames
