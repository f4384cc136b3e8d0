pub mod Came
pub mod Stepping
pub mod Given
