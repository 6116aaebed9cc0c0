pub mod Closed
pub mod Verdict
pub mod Faults
pub mod Find
pub mod Test
pub mod Parts
