pub mod Rrc
pub mod RrcLaws
