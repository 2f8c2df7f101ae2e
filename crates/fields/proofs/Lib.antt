pub mod Digits
pub mod Following
pub mod Stepping
pub mod Filling
pub mod Giving
