-- The laws of reading a file, each file for one idea.
pub mod Copying
pub mod Reading
pub mod Rooms
