pub mod Gone
pub mod Shown
