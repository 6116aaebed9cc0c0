pub mod Polynomials
pub mod Tables
pub mod PolynomialField
pub mod Linear
pub mod Products
pub mod Powers
