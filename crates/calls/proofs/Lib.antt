pub mod Settled
pub mod Alike
