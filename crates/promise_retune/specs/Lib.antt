pub mod Histories
pub mod HistoryLaws
