pub mod Numbers
pub mod Periods
