pub mod Working
pub mod Ranks
pub mod Block
pub mod BlockLaw
