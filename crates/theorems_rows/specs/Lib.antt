pub mod Rows
pub mod Examples
pub mod Sections
pub mod Refusals
pub mod Payloads
