pub mod EntriesGrow
pub mod LeastLaws
pub mod Reaching
