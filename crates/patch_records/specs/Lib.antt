pub mod Records
pub mod Workings
