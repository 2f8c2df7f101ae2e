pub mod Halving
pub mod Small
