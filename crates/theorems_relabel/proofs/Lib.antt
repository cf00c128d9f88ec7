pub mod Numbers
pub mod Replaced
pub mod Answered
pub mod Readings
pub mod Contracts
pub mod Premises
pub mod Theorems
