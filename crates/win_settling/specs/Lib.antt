pub mod Settling
pub mod Radicand
pub mod Root
pub mod SettlingLaws
pub mod Values
