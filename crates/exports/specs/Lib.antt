pub mod Packed
pub mod Alike
