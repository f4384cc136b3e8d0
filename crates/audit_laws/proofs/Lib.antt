pub mod Shown
pub mod GivenUp
pub mod Account
pub mod Blunt
pub mod Spelled
pub mod Hearing
pub mod Answering
pub mod Stale
