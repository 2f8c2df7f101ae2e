pub mod Sections
pub mod inner
