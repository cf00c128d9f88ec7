pub mod Plain
pub mod Segmentation
pub mod Descriptor
pub mod Full
pub mod Views
pub mod Private
