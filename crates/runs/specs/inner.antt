pub mod Tables
pub mod Loops
