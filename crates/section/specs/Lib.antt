pub mod Section
pub mod Full
pub mod Private
