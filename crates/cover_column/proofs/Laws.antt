-- The laws of columns, each file for one idea.
pub mod Rows
pub mod Columns
pub mod Copies
