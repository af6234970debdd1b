-- The laws of the table, each file for one idea.
pub mod Told
pub mod Products
pub mod Sweeps
pub mod Fills
pub mod Offers
pub mod Gathers
pub mod Filling
pub mod Found
