pub mod RowsHold
pub mod Examples
pub mod Worked
pub mod Refusals
pub mod Payloads
pub mod Mids
pub mod Theorems
