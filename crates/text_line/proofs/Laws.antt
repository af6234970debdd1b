-- The laws of writing lines, each file for one idea.
pub mod Sizes
pub mod Rows
pub mod Heads
