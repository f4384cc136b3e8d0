pub mod Parts
pub mod Scanned
pub mod Answer
pub mod Judging
pub mod Command
