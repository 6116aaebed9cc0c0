pub mod Overlays
pub mod Writing
pub mod Pieces
pub mod Degrees
