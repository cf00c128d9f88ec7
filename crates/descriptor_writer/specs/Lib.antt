pub mod Stores
pub mod Private
