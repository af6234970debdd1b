-- The laws of going from loop to loop, each file for one idea.
pub mod Rings
pub mod Reading
pub mod Tray
pub mod Sights
pub mod Tables
