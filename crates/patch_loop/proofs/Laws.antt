-- The laws of one loop patched.
pub mod Takes
