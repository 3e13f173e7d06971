pub mod LowpassLaws
