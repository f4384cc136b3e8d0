pub mod Account
pub mod Replay
pub mod Turning
pub mod Stop
