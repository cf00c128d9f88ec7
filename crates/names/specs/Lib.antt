pub mod Numbering
pub mod Algorithm
pub mod Command
pub mod Upid
pub mod Segmentation
pub mod Flags
