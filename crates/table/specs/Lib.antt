pub mod Bits
pub mod Table
pub mod Writing
pub mod Lent
pub mod Cursor
