pub mod Walks
pub mod Times
pub mod Inserts
pub mod Commands
