pub mod Outcome
pub mod Workings
