-- The laws of the listing program.
pub mod Printing
