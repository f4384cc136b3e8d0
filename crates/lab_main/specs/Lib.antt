pub mod Ends
pub mod Limits
pub mod Input
pub mod Edges
