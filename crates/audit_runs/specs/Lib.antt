pub mod Alike
pub mod Kept
pub mod Told
pub mod Audited
pub mod Whole
pub mod Fixed
pub mod Given
pub mod First
