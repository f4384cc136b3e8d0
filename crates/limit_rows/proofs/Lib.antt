pub mod Keyed
pub mod Handed
pub mod Weights
pub mod Bounded
