-- The laws of tests, of lists, of searches, of half-edges, of buffers and of checks one after the other, each file for one idea.
pub mod Tests
pub mod Lists
pub mod Threes
pub mod Smallest
pub mod Edges
pub mod Passes
pub mod Positions
pub mod Over
pub mod Laid
pub mod Thens
pub mod Deciding
pub mod Sound
