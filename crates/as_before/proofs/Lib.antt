pub mod Samples
pub mod Reading
pub mod Theorem
pub mod Polynomials
