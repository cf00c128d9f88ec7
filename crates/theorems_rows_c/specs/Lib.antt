pub mod Inputs
pub mod Refused
