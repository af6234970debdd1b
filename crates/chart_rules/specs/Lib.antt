pub mod Report
pub mod Touching
pub mod Tallies
pub mod Order
