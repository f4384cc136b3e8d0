pub mod Calendar
pub mod Civil
