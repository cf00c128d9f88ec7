pub mod Flat
pub mod FlatCommand
pub mod FlatSection
