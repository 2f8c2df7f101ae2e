pub mod Composing
pub mod inner
