mod Bound
mod Certifying
mod Moved
pub mod Zones
