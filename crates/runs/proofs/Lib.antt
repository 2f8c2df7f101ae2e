pub mod Between
pub mod Painting
pub mod Parts
pub mod Testing
pub mod Counting
pub mod Filling
pub mod Joined
pub mod Tables
