pub mod Next
pub mod Loops
