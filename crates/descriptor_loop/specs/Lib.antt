pub mod Place
pub mod Items
pub mod Cover
pub mod Private
