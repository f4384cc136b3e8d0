pub mod Courses
pub mod Pieces
pub mod Streams
