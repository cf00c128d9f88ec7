pub mod Identifiers
pub mod Numbers
pub mod Whole
pub mod Listing
pub mod Around
