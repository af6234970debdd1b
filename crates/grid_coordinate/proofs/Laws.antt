-- The laws of one coordinate, each file for one idea.
pub mod Nearest
pub mod Signs
pub mod Floats
pub mod Units
pub mod Rests
pub mod Only
pub mod Coordinates
