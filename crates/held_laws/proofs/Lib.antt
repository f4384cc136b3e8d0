pub mod Numbers
pub mod Saying
pub mod Running
pub mod Beside
pub mod Gathering
pub mod Held
