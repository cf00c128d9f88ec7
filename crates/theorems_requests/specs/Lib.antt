pub mod Adjustments
pub mod Sections
pub mod Packets
