pub mod Named
pub mod Cutting
pub mod Incident
