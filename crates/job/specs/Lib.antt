pub mod Faults
pub mod JobLaw
pub mod Jobs
