pub mod Cached
pub mod CachedLaws
