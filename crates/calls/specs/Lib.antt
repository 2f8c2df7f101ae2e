pub mod Lent
pub mod promises
pub mod Calls
pub mod Settled
pub mod Alike
pub mod inner
