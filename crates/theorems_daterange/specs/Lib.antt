pub mod Lines
pub mod Faults
