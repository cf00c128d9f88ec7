pub mod Surveys
pub mod Ties
pub mod Making
