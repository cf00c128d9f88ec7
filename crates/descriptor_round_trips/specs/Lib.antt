pub mod Trips
pub mod Making
