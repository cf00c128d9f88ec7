pub mod Written
pub mod Making
pub mod Writable
