pub mod Values
pub mod Settings
pub mod Keys
pub mod Old
pub mod Changes
