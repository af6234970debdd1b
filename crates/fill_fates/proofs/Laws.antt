-- The laws of the course, each file for one idea.
pub mod Grows
pub mod Lengths
pub mod Three
pub mod Sides
