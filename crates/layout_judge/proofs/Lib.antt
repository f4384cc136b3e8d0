pub mod Counted
pub mod Fitting
pub mod Kept
pub mod Marking
pub mod Weighed
pub mod Orders
