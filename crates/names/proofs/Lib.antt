pub mod Names
pub mod NameParts
pub mod Numbers
pub mod Places
