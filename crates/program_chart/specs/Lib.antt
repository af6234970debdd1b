-- What is printed of a sheet's text by the charting program.
pub mod Charting
pub mod Workings
