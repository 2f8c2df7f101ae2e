pub mod Raising
pub mod Steps
pub mod Tables
