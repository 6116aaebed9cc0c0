pub mod Sound
pub mod Steps
