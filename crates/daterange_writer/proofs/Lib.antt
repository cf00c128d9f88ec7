pub mod Digits
pub mod Stored
