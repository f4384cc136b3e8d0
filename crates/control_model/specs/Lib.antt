pub mod Facts
pub mod Layouts
pub mod Reached
pub mod Steps
pub mod World
