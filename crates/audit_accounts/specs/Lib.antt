pub mod Saying
pub mod Runs
