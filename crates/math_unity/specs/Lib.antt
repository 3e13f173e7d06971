pub mod Unity
pub mod Cut
pub mod Run
pub mod Digits
pub mod Parts
pub mod Props
pub mod UnityLaws
