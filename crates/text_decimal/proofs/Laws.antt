-- The laws of decimal numbers read, each file for one idea.
pub mod Leads
pub mod Rooms
pub mod Chain
