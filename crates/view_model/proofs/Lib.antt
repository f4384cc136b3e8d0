pub mod Gapless
pub mod Joins
pub mod Cleans
pub mod ReadVersions
