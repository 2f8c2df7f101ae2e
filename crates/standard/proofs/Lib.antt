pub mod Pivots
pub mod Pieces
pub mod Weights
pub mod Polynomials
pub mod Zero
pub mod Residuals
pub mod Examples
pub mod MmrExamples
