pub mod Q15
pub mod WholeFloats
pub mod Q15Laws
