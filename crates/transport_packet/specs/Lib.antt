pub mod Packet
pub mod Sections
