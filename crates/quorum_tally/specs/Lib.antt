pub mod Marks
pub mod Stands
