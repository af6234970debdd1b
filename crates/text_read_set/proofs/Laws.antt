-- The laws of reading the text of a patch set, each file for one idea.
pub mod Exactly
pub mod Texts
pub mod Deliver
pub mod Within
