pub mod Masks
pub mod Same
pub mod Due
pub mod Claiming
