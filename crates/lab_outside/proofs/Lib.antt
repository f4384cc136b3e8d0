pub mod Rose
pub mod Bytes
pub mod Connections
pub mod Present
