pub mod Bounds
pub mod Carry
mod Duality
pub mod Few
mod Fitted
mod Greatest
pub mod Lies
pub mod Lightest
mod Listed
pub mod Printed
pub mod Spread
pub mod Sums
mod Weights
pub mod Whole
pub mod Wrapped
pub mod Zones
