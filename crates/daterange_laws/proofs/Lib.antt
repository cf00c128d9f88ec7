pub mod Theorems
pub mod Orders
pub mod Cues
