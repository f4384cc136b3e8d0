pub mod View
pub mod Layouts
