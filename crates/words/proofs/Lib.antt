pub mod Bounds
pub mod Tests
pub mod Holding
pub mod Integers
