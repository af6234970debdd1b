-- The laws of the sheet text, each file for one idea.
pub mod Told
pub mod Exactly
pub mod Keys
pub mod Rooms
pub mod Going
pub mod Sizes
pub mod Heads
pub mod Found
pub mod Texts
pub mod Putting
