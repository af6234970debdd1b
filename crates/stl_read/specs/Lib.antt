-- Definitions that serve the code.
pub mod Workings
