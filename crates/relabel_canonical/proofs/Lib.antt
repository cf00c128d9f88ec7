pub mod Frames
pub mod Loops
pub mod Canon
pub mod Besides
pub mod Theorems
