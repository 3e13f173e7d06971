pub mod Reports
pub mod Delays
pub mod SeriesTold
