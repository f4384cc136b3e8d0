pub mod Acts
pub mod Drains
pub mod Leads
