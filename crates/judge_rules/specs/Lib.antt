pub mod Faults
pub mod Verdicts
