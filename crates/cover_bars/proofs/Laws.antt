-- The laws of bars, each file for one idea.
pub mod Tests
pub mod Joins
pub mod Chaining
pub mod Inputs
pub mod Triples
pub mod Laid
pub mod Laying
pub mod Patches
pub mod Stamps
pub mod Reaches
pub mod Rows
pub mod Walks
pub mod Rounds
pub mod Neighbours
pub mod Sides
pub mod Barring
