pub mod OverC
pub mod Boards
