pub mod Arrays
pub mod Numbers
pub mod FlatSections
