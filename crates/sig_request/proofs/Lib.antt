pub mod Joined
pub mod Sorting
pub mod Parameters
