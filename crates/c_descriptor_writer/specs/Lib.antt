pub mod ItemGiven
pub mod ItemWords
