pub mod Parts
pub mod Round
pub mod Stands
