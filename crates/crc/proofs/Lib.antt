pub mod Annex
pub mod Bytes
pub mod Laws
pub mod Linear
pub mod Turns
pub mod Vectors
pub mod Words
pub mod Xor
