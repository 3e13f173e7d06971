pub mod Following
pub mod Whole
pub mod Reads
pub mod ReadsLaws
pub mod Tickets
pub mod TicketsLaws
pub mod Worked
pub mod Met
