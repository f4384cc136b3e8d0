pub mod Firsts
pub mod Knowing
pub mod Getting
pub mod Acting
pub mod Ending
pub mod Middle
pub mod Coming
