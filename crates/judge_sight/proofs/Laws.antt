-- The laws of loops that are judged at sight, each file for one idea.
pub mod Findings
pub mod Threes
