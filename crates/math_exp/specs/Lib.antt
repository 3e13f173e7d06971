pub mod Exp
pub mod ExpLaws
pub mod Pow04
pub mod ExpFits
