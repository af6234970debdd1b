-- The laws of the checks of words, each file for one idea.
pub mod Words
pub mod Refusing
