pub mod Answer
pub mod Stop
pub mod Replay
