pub mod Counts
pub mod Pitches
