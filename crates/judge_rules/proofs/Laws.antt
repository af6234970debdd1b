-- The laws of judging, each file for one idea.
pub mod Passes
pub mod Listing
pub mod Patched
pub mod Filled
pub mod Declared
