pub mod Codes
pub mod Inverse
pub mod Residues
pub mod PrimeResidues
pub mod Remainders
pub mod Inverses
pub mod Primes
pub mod Below
