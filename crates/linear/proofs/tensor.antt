pub mod Locate
pub mod Pairs
pub mod Entries
pub mod Square
pub mod Laws
pub mod Counts
