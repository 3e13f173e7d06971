pub mod Finite
pub mod Zeros
pub mod Angle
pub mod Builtins
pub mod Loaded
pub mod LoadedLaws
pub mod Worked
pub mod Met
