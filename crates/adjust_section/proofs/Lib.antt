pub mod Parts
pub mod Stored
pub mod Stays
pub mod Back
pub mod Theorems
