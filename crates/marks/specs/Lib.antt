pub mod Marks
pub mod inner
