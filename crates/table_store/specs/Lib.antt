pub mod Index
pub mod Notes
pub mod Shelf
pub mod Markers
pub mod Pairs
pub mod Settled
pub mod Whole
