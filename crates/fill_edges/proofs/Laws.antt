-- The laws of edges after patches, each file for one idea.
pub mod Places
pub mod Times
pub mod After
pub mod Begun
pub mod Named
pub mod Diagonals
pub mod Patches
pub mod Lies
pub mod Filled
pub mod Sums
pub mod Together
pub mod Rings
