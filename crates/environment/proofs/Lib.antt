pub mod Parts
pub mod Steps
pub mod Asking
pub mod Laws
pub mod Leaving
