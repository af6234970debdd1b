-- What the programs print.
pub mod Lines
pub mod Listing
pub mod Printout
pub mod Workings
