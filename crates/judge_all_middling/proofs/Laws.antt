-- The laws of the verdict over all loops, with the tray.
pub mod FullVerdict
