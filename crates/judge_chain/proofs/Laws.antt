-- The laws of chaining a cover, each file for one idea.
pub mod Joined
pub mod Chained
