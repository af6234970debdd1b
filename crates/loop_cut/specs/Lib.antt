pub mod Listing
pub mod Workings
