pub mod Rules
pub mod inner
