pub mod Command
pub mod Descriptor
pub mod Section
pub mod Same
