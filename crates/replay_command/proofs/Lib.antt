pub mod Stops
pub mod Stating
pub mod Answering
pub mod Ends
