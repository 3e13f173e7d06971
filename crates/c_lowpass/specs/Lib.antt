pub mod Lowpass
pub mod Spec
pub mod Prototype
