pub mod Hashed
pub mod Rows
pub mod Requests
