pub mod Contracts
pub mod Lines
pub mod Faults
pub mod Premises
pub mod Theorems
