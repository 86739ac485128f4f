pub mod Stores
pub mod Alike
pub mod Under
pub mod Names
pub mod Rename
pub mod Sights
pub mod Given
pub mod Left
