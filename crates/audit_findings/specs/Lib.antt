pub mod Alone
pub mod Next
