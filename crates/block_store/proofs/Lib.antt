pub mod ByHash
pub mod InOrder
pub mod SameEntries
pub mod Showing
pub mod Since
pub mod Steps
pub mod Within
