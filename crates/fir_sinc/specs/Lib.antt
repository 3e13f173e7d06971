pub mod Windows
pub mod Taps
pub mod StepLaws
pub mod Mirrored
pub mod Pending
