pub mod Rows
pub mod Root
pub mod Top
