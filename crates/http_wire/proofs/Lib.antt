mod Lines
pub mod Takings
pub mod Cuts
pub mod Searches
pub mod Ends
pub mod Bodies
pub mod Tolds
