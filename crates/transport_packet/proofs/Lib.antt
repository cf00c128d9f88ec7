pub mod Next
pub mod Bytes
pub mod Cuts
pub mod Heads
