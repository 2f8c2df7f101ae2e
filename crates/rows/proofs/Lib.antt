pub mod Lending
pub mod Parts
pub mod Standing
