pub mod Marking
pub mod Keeping
