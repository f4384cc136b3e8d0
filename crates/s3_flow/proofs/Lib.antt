pub mod Choices
pub mod ObjectRows
pub mod Whole
