pub mod Threes
pub mod Smallest
pub mod Edges
pub mod Refusals
pub mod Buffers
