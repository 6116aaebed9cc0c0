pub mod Buffers
pub mod Lines
pub mod Degrees
pub mod Pens
