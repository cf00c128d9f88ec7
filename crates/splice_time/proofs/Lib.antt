pub mod Times
pub mod Alignments
pub mod Breaks
pub mod Rows
