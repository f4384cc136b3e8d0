pub mod Admitted
pub mod Turns
pub mod Refusals
