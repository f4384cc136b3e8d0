pub mod Due
pub mod Numbering
