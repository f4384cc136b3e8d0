pub mod Numbers
pub mod Turns
pub mod Change
pub mod Schedule
pub mod Duties
