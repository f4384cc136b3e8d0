pub mod Keys
pub mod Phases
