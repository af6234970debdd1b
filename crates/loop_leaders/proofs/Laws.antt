-- The laws of the table as it is followed, each file for one idea.
pub mod Quiets
pub mod Jumps
