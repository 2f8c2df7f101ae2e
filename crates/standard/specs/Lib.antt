pub mod Parameters
pub mod Mapping
pub mod Residual
pub mod Mmr
pub mod Examples
pub mod MmrExamples
