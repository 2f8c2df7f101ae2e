pub mod Differences
pub mod Held
pub mod InOrder
pub mod Mappable
pub mod Meaning
