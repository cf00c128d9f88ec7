pub mod Headers
pub mod Rows
