pub mod Answer
pub mod Moves
pub mod Reasons
pub mod Command
