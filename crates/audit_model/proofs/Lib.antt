pub mod Read
pub mod Unique
pub mod Decided
pub mod One
