pub mod Writing
pub mod ThreeWords
pub mod Input
pub mod Edges
pub mod Stating
