pub mod Trig
pub mod Laws
pub mod Opposite
