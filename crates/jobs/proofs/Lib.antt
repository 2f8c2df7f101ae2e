pub mod Accepting
pub mod Meaning
pub mod Samples
