pub mod Calls
pub mod Slices
pub mod Flat
pub mod Words
