pub mod Holding
pub mod Below
pub mod Blocks
pub mod Chosen
pub mod Rows
pub mod Nearness
pub mod BlockLaws
pub mod Including
