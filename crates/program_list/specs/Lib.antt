-- What is answered, left and printed for a sheet's text.
pub mod Lists
pub mod Workings
