pub mod Steps
pub mod Between
pub mod Points
pub mod Even
pub mod Small
pub mod Sums
pub mod Edge
