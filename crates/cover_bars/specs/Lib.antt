pub mod Bars
pub mod Workings
