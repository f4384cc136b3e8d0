pub mod Ascending
pub mod ByteOrder
pub mod Lengths
pub mod Loop
pub mod Ordered
pub mod StateOrder
pub mod Whole
