pub mod Counting
pub mod Accepting
pub mod Refusing
