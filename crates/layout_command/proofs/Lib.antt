pub mod Stated
pub mod Computed
pub mod Configured
pub mod StatedMoves
pub mod Printed
pub mod Staged
