-- The laws of a listing's sections, each file for one idea.
pub mod Beginning
pub mod Between
pub mod Filling
pub mod Going
pub mod Whole
