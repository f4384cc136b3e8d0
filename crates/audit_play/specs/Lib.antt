pub mod Parting
pub mod Staged
pub mod Sheets
pub mod Turns
pub mod Comparing
