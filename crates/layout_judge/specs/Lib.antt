pub mod Tests
pub mod Marks
pub mod Weights
pub mod Places
