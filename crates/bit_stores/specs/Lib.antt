pub mod Pen
pub mod Written
pub mod Private
