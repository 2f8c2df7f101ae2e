pub mod Framing
pub mod Blocks
pub mod Answers
