-- The laws of placing on the grid of a pitch, each file for one idea.
pub mod Twice
pub mod Parts
pub mod Quotients
pub mod Near
pub mod Placing
pub mod Answered
pub mod Ends
