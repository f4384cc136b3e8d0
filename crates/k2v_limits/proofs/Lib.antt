pub mod Merged
pub mod Rows
pub mod Weights
pub mod Requests
pub mod Turns
mod Scheduled
