pub mod Single
pub mod Sized
