mod Places
mod Late
mod Timed
mod Moves
mod Requests
mod Turns
pub mod Safely
