pub mod Format
pub mod Formats
pub mod FormatLaws
pub mod Conversions
pub mod ConversionLaws
