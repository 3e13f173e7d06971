pub mod Codes
pub mod CodesLaws
