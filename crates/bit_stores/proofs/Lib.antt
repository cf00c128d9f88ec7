pub mod Penned
pub mod Tables
pub mod Turns
pub mod Writes
