pub mod Places
pub mod Carried
pub mod Ranged
pub mod Fitting
pub mod Making
