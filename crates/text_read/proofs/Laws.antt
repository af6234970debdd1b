-- The laws of reading a sheet text, each file for one idea.
pub mod Taking
pub mod Deliver
pub mod Within
