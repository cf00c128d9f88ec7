pub mod Places
pub mod Completes
pub mod Steps
pub mod Readings
pub mod Lists
pub mod Cuttings
pub mod Theorems
pub mod Rows
