-- The laws of the grid of all words.
pub mod Laying
