pub mod Acting
pub mod Standing
pub mod Giving
pub mod Uploads
pub mod Changes
