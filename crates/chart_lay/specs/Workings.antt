-- Definitions that serve the code: contracts of inner functions name them, and no promise of an entry point does.
pub mod Chaining
pub mod Locating
pub mod Stamping
pub mod Entering
pub mod Coast
pub mod Others
pub mod Pieces
pub mod Laying
