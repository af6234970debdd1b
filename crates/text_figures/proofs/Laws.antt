-- The laws of numbers written, each file for one idea.
pub mod Parts
pub mod Spelling
pub mod Fours
