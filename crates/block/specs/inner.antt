pub mod Placed
pub mod Answering
