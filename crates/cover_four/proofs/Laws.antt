-- The laws of loops of four edges.
pub mod Fours
