pub mod Methods
pub mod Ranges
pub mod Rule7
pub mod Tables
pub mod Versions
pub mod Parameters
pub mod inner
