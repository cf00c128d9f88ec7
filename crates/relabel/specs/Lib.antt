pub mod Relabel
pub mod Private
