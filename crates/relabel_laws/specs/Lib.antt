pub mod Identifiers
pub mod Result
