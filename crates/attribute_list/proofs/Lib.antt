pub mod Runs
pub mod Completes
pub mod Places
pub mod Lists
