pub mod Digits
pub mod FirstLine
pub mod Inverse
pub mod Lines
pub mod Reading
