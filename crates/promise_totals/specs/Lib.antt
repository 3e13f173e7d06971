pub mod Bounds
pub mod Written
pub mod Mirror
pub mod Conversions
pub mod ReadCodes
pub mod Filter
pub mod Slices
