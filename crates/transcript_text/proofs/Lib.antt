pub mod Inverse
pub mod Stamps
pub mod Digests
pub mod Lists
pub mod Lines
