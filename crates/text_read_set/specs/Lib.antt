-- The text of a patch set, what reading one answers and leaves, and how the code that reads goes about it.
pub mod Set
pub mod Outcome
pub mod Workings
