-- The laws of numbers in a text, each file for one idea.
pub mod Digit
pub mod Sizes
pub mod Exactly
pub mod Keys
pub mod Lay
pub mod Laying
