pub mod Agrees
pub mod Digits
pub mod Kinds
pub mod Told
pub mod Words
