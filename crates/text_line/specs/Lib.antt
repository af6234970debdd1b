-- What the code that writes lines goes by.
pub mod Workings
