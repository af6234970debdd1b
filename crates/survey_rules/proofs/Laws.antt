-- The laws of a surface that passed the checks, for whoever lists its loops.
pub mod Known
pub mod Parts
