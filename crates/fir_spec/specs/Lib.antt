pub mod Spec
pub mod SpecLaws
