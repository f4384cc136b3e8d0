mod Sets
mod Walks
mod Gathering
mod Hearing
mod Acting
pub mod Steps
