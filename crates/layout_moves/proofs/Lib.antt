mod Adding
mod Certificate
pub mod Chosen
mod Ending
mod Heading
mod Limit
mod Listed
mod Near
mod Offering
mod Ordered
mod Rounded
mod Running
mod Steps
mod Swapping
mod Swaps
mod Weak
