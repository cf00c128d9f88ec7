pub mod Searches
pub mod Names
pub mod Walks
pub mod Looks
pub mod Octets
pub mod Values
pub mod Answers
pub mod Numbers
