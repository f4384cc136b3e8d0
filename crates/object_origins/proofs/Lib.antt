pub mod Given
pub mod Shown
mod Whole
