-- The laws of the checker, each file for one idea.
pub mod Judging
pub mod Apart
