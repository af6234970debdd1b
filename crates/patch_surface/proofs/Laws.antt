-- The laws of the patcher, each file for one idea.
pub mod Checking
pub mod Weighing
pub mod Filling
pub mod Patching
pub mod Answering
