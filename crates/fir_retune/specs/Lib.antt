pub mod Retune
pub mod Operations
