pub mod Breaks
pub mod Board
pub mod Runs
pub mod Calls
