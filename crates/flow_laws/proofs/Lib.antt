pub mod Cut
pub mod Going
pub mod Later
pub mod Merged
pub mod Nothing
pub mod Streaming
