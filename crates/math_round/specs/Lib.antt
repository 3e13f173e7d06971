pub mod Whole
pub mod Laws
pub mod OneFloor
pub mod Near
pub mod NearPaths
pub mod FloorAs
