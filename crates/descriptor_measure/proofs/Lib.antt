pub mod Fields
pub mod Tests
pub mod Refusals
pub mod Making
