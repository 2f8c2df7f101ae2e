pub mod Words
pub mod Raising
pub mod Dividing
pub mod Courses
pub mod Meaning
