pub mod Here
pub mod Fates
pub mod Course
