pub mod Answers
pub mod Back
pub mod Refusals
pub mod Typed
