pub mod Tail
pub mod Turning
pub mod Stop
pub mod Answer
pub mod Command
