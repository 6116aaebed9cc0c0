pub mod Squares
pub mod Laws
pub mod Testing
