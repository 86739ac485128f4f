pub mod Left
pub mod Order
pub mod Where
pub mod Chains
