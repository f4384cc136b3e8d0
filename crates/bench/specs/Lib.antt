pub mod Numbered
pub mod Pattern
