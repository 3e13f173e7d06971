pub mod Verdicts
pub mod Demand
pub mod Listed
pub mod Judgements
pub mod Exports
