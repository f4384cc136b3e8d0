pub mod Acts
pub mod Changing
