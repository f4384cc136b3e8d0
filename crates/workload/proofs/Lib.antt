mod Ranges
mod Growing
pub mod Allowed
pub mod Others
