pub mod Step
pub mod Assembler
