pub mod Words
pub mod CommandWords
pub mod CommandGiven
pub mod Private
