pub mod Confirming
mod Counting
