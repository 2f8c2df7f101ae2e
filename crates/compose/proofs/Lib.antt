pub mod Samples
pub mod Planes
pub mod Chroma
pub mod Meaning
pub mod Accepting
