-- The laws of the checks, each file for one idea.
pub mod Stops
pub mod Weaving
pub mod Checking
