pub mod Entries
pub mod Square
pub mod Laws
pub mod Counts
pub mod Scalars
