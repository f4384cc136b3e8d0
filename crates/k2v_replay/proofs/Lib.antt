pub mod Turns
pub mod Leading
pub mod Lawful
pub mod Limits
pub mod Cutting
pub mod Ending
pub mod Further
pub mod Keeping
