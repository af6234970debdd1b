-- The laws of laying a report.
pub mod Firsts
pub mod Chaining
pub mod Locating
pub mod Stamping
pub mod Entering
pub mod Kinds
pub mod Picked
pub mod Rings
pub mod Walking
pub mod Touching
pub mod Pieces
pub mod Shores
pub mod Laying
