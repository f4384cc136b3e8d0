pub mod Laws
pub mod Names
pub mod Schema
pub mod Sets
pub mod Triggers
pub mod NameLaws
