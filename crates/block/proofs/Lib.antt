pub mod Cascade
pub mod Answers
pub mod Suffix
