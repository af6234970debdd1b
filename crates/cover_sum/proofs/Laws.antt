-- The laws of what triangles weigh, each file for one idea.
pub mod Passed
pub mod Weighing
pub mod Patches
