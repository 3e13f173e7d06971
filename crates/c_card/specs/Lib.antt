pub mod Cards
pub mod Tickets
pub mod Writing
