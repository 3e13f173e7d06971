pub mod Kinds
pub mod KindsLaws
