pub mod Quorum
pub mod Answers
pub mod Window
