pub mod Text
pub mod Upid
pub mod Cover
pub mod Private
