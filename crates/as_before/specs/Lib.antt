pub mod VersionOne
pub mod Polynomials
