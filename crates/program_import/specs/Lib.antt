-- What is printed for a file of facets.
pub mod Importing
pub mod Workings
