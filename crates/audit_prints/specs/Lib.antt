pub mod Sheets
pub mod Stages
pub mod Roles
pub mod Lines
pub mod Sets
pub mod Sides
pub mod Judged
