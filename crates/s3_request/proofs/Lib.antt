pub mod Lists
pub mod Digits
pub mod Kept
pub mod Lengths
