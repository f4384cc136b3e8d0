pub mod Tables
pub mod Roles
pub mod FirstRun
pub mod OldRuns
pub mod ChangeTables
