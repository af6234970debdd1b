-- The laws of laying a patch.
pub mod Patches
