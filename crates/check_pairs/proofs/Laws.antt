-- The laws of the pairing, each file for one idea.
pub mod Triangles
pub mod Rounds
pub mod Few
