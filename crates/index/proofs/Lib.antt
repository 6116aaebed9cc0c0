pub mod Ascents
pub mod Held
pub mod Halves
pub mod Fits
pub mod Closing
pub mod Telling
pub mod Steps
pub mod Turns
