pub mod Halfband
pub mod HalfbandLaws
pub mod Distance
pub mod Mirror
