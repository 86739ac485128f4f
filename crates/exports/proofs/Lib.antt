pub mod Places
pub mod Packing
pub mod Unpacking
