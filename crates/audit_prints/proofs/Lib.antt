mod Bounds
mod Fitting
mod Given
mod Named
mod Parts
mod Walks
