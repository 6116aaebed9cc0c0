pub mod Inclusion
pub mod InclusionTest
