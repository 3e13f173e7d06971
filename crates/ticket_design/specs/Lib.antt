pub mod Design
pub mod OwnLaws
pub mod DesignLaws
