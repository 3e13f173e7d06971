pub mod Designs
pub mod DesignsLaws
