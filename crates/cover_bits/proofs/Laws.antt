-- The laws of masks.
pub mod Masks
