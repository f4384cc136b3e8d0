pub mod Blocks
pub mod Rows
pub mod Says
pub mod Flow
pub mod Next
pub mod Overdrawn
pub mod Streams
