pub mod Card
pub mod Places
pub mod Orders
pub mod Readings
pub mod Cards
pub mod CardsLaws
