pub mod Grammar
pub mod Cutting
