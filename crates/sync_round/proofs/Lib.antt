pub mod Confirming
pub mod Counting
pub mod Ordering
