pub mod Kaiser
