pub mod Entries
pub mod Least
pub mod Trackers
pub mod TrackersLaws
