pub mod Contracts
pub mod Premises
pub mod Adjustments
pub mod Sections
pub mod Heads
pub mod Runs
pub mod Theorems
pub mod OverC
