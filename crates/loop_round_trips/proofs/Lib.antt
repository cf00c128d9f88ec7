pub mod Places
pub mod Pieces
pub mod Loops
pub mod Theorems
