-- The laws of covers, each file for one idea.
pub mod Order
pub mod Sooner
pub mod Best
pub mod Parts
pub mod Steps
pub mod Least
pub mod Chords
pub mod Pairs
pub mod Counted
pub mod Corners
pub mod Wound
pub mod Listed
pub mod Sets
pub mod Closed
