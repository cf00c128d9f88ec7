pub mod Laws
pub mod Algorithms
pub mod Commands
pub mod Upids
pub mod Segmentations
pub mod FlagLaws
pub mod Rows
