pub mod Fronts
pub mod Entries
pub mod Ends
pub mod Shown
pub mod Ascending
