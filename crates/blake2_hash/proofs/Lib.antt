pub mod StandardFacts
pub mod Taking
