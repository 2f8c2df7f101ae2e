pub mod Large
pub mod Accepting
