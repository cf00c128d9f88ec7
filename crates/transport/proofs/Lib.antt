pub mod Gathered
pub mod Settles
pub mod Buffer
pub mod Answers
