pub mod Section
pub mod inner
