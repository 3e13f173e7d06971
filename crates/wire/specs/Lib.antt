pub mod Bytes
pub mod Laws
pub mod Read
pub mod Held
pub mod Writes
pub mod WrittenPrefix
