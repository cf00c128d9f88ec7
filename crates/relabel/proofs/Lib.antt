pub mod Stores
pub mod Ats
pub mod Cuts
pub mod Mades
