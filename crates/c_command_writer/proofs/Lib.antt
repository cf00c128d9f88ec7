pub mod Answers
pub mod Back
pub mod Components
pub mod Fits
pub mod Given
pub mod Refusals
pub mod Typed
pub mod Words
