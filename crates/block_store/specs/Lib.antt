pub mod Contents
pub mod Moments
pub mod Shelf
