pub mod Butterworth
pub mod EvenOrders
pub mod SectionLaws
