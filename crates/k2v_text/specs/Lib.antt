pub mod Grammar
pub mod Reading
pub mod Schedule
pub mod Events
pub mod Played
pub mod Transcript
pub mod Sample
