pub mod Limits
pub mod States
