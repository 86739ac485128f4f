pub mod Enums
pub mod Lists
