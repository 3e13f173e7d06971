pub mod Load
pub mod Worked
