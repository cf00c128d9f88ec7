pub mod Writing
pub mod Private
