pub mod Carrying
pub mod Sizes
pub mod Making
pub mod Bounds
