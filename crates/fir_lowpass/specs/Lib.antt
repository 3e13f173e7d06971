pub mod Lowpass
pub mod Cached
pub mod CachedLaws
pub mod AsBefore
