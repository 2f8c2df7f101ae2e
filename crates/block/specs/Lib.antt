pub mod Reading
pub mod Facts
pub mod inner
