pub mod Replay
pub mod Moments
