pub mod Putting
pub mod Distances
pub mod Inking
