pub mod Text
pub mod Fault
pub mod Room
pub mod Workings
