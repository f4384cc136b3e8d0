pub mod Made
pub mod Spelled
pub mod Weighing
pub mod Contents
