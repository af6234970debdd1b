-- The laws of a middling loop.
pub mod Middling
