pub mod Rows
pub mod Going
pub mod Within
pub mod Growing
pub mod Acting
