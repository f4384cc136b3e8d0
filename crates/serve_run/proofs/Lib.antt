pub mod Within
pub mod Planned
pub mod ToCome
pub mod Input
pub mod Sized
pub mod Opening
mod Never
pub mod Requests
pub mod InPart
pub mod Serving
pub mod FromMap
pub mod Ending
pub mod Completing
pub mod Telling
