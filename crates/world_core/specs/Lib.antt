pub mod Parts
pub mod Nodes
pub mod Stands
pub mod Given
