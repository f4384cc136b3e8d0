pub mod Counting
pub mod Asking
pub mod Paying
pub mod Draining
