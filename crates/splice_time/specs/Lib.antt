pub mod Time
pub mod Break
