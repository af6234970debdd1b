-- The laws of what is printed, each file for one idea.
pub mod Fronts
pub mod Put
pub mod Read
pub mod Longer
