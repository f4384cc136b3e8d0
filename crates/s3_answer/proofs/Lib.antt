pub mod Days
pub mod Appends
pub mod Phrases
pub mod Portions
