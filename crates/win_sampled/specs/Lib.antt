pub mod Shapes
pub mod SampleLaws
