pub mod Ascending
pub mod Views
