-- What gathering the points of a file leaves, and what the code that gathers goes by.
pub mod Gathering
pub mod Workings
