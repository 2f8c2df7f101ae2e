pub mod Facts
pub mod Copying
