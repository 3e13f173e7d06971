pub mod Series
pub mod Laws
