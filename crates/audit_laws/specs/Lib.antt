pub mod Account
pub mod Told
