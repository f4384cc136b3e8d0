pub mod Runs
pub mod Parts
pub mod Words
pub mod Back
pub mod Computed
pub mod Staged
