pub mod Settling
pub mod SamplesLaws
pub mod TakenLaws
