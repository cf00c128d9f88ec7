pub mod Walks
pub mod Actives
pub mod Spots
pub mod Titles
