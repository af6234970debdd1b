-- The laws of loops without an allowed cover, each file for one idea.
pub mod Ways
pub mod Marks
pub mod Shut
