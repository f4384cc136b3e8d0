pub mod Answering
pub mod Keyed
pub mod Numbering
