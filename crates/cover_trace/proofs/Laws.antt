-- The laws of listing a patch from the table, each file for one idea.
pub mod Ways
pub mod Middles
pub mod Tries
pub mod Lists
