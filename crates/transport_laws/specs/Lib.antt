pub mod Concatenation
pub mod Runs
pub mod Takes
