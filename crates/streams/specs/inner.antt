pub mod Untouched
pub mod Places
