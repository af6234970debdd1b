-- The laws of the part of a set that a loop takes, each file for one idea.
pub mod Covered
pub mod Weighed
