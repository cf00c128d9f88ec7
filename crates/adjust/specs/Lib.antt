pub mod Adjust
pub mod Chains
