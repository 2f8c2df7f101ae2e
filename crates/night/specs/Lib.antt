pub mod Sequence
pub mod Night
pub mod Chain
pub mod InTime
pub mod EitherOrder
pub mod TwoPictures
pub mod FourRows
