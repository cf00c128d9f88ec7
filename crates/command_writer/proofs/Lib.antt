pub mod Storing
pub mod Payloads
pub mod Theorems
