-- The laws of whole numbers held as floats, each file for one idea.
pub mod Sums
pub mod Orders
pub mod Clearing
pub mod Casts
