pub mod Fields
pub mod Fits
pub mod Records
pub mod Written
pub mod WrittenLaws
pub mod Worked
