pub mod Sight
pub mod Listing
