-- The laws of marking rims, each file for one idea.
pub mod Running
pub mod Measuring
pub mod Ranking
pub mod Rivals
pub mod Telling
pub mod Marking
pub mod Crossing
pub mod Marks
pub mod Listed
