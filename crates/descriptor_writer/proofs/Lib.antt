pub mod Storing
pub mod Joining
pub mod Envelopes
pub mod Plainly
pub mod Listing
pub mod Segmenting
pub mod Describing
