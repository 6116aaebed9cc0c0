pub mod Answering
pub mod Counting
pub mod Refusing
