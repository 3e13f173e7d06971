pub mod Gaussian
pub mod GaussianLaws
