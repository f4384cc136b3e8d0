pub mod Gets
pub mod Giving
pub mod Sums
pub mod Uploads
pub mod Taking
pub mod Service
