pub mod Adjusted
pub mod Readings
