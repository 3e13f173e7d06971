pub mod Lists
pub mod RetuneLaws
