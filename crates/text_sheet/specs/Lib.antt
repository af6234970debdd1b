-- The sheet text, and how the code that reads its lines goes about it.
pub mod Sheet
pub mod Workings
