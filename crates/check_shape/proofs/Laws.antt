-- The laws of the checks of counts and of buffers.
pub mod Refusing
