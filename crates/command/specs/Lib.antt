pub mod Insert
pub mod Command
pub mod Private
pub mod Writable
