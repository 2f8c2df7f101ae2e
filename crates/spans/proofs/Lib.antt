pub mod Fours
pub mod InStep
pub mod Six
