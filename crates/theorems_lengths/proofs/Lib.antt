pub mod Items
pub mod Commands
pub mod Sections
pub mod Theorems
