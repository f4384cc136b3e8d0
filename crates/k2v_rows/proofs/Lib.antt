pub mod Facts
pub mod Lasts
pub mod Tokens
pub mod Taken
