pub mod Replaced
pub mod Answered
pub mod Readings
pub mod Back
