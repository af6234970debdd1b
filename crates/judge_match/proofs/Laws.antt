-- The laws of matching, each file for one idea.
pub mod Tests
pub mod Meets
pub mod Rows
pub mod Collects
pub mod Closes
pub mod Matched
