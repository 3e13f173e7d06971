pub mod Fits
pub mod FitsLaws
