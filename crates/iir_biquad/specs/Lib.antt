pub mod Biquad
pub mod Preemphasis
