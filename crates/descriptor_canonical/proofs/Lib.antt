pub mod Through
pub mod Plains
pub mod Segments
pub mod Tests
pub mod Loops
