pub mod Answered
pub mod Back
pub mod FilledUp
pub mod Own
pub mod Told
pub mod Typed
