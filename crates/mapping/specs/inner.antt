pub mod Copies
pub mod Mapped
pub mod Steps
