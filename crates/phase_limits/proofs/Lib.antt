pub mod Windows
pub mod Leaving
