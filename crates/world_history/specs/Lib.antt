pub mod Checks
pub mod Finish
pub mod Index
pub mod Table
