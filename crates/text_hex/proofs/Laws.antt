-- The laws of words read.
pub mod Marks
