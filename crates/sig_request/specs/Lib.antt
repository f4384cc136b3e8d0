pub mod Texts
pub mod Fields
pub mod Query
pub mod Canonical
