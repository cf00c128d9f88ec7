pub mod SectionWords
pub mod SectionGiven
