-- The laws of hearing a patch set, each file for one idea.
pub mod Answered
pub mod Sets
pub mod Sheets
pub mod Takes
