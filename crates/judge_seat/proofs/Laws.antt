-- The laws of seats, each file for one idea.
pub mod Places
pub mod Seated
