-- The laws of what the checker leaves.
pub mod Fronts
