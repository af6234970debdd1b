-- The laws of a report.
pub mod Picking
pub mod Reading
pub mod Touches
pub mod Sums
pub mod Tallies
pub mod Once
pub mod Entries
pub mod Ordered
