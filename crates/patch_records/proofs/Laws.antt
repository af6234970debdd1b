-- The laws of records in a buffer.
pub mod Sevens
pub mod Laying
pub mod Reading
