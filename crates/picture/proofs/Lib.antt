pub mod Rows
pub mod Three
