pub mod Numbering
mod Searching
