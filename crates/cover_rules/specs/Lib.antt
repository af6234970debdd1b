pub mod Weights
pub mod Covers
pub mod Sets
pub mod Workings
