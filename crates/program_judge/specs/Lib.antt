-- What is answered on a sheet's text and the text of a patch set.
pub mod Hears
pub mod Workings
