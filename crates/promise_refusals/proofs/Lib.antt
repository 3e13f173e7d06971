pub mod Kept
pub mod ListedLaws
