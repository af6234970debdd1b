-- The laws of listing a text, each file for one idea.
pub mod Taken
pub mod Shows
pub mod Left
pub mod Printed
pub mod Printouts
