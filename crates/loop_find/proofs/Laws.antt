-- The laws of listing the loops, each file for one idea.
pub mod Marks
pub mod Below
pub mod After
pub mod Going
pub mod Through
