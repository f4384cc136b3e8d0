pub mod Lines
pub mod Reading
pub mod Heard
pub mod Printed
pub mod Audit
