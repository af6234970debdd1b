-- The laws of texts, of two parts and below a head, each file for one idea.
pub mod Lists
pub mod Counts
pub mod Rows
pub mod Parts
pub mod Ways
pub mod Lines
pub mod Halves
pub mod Fill
pub mod Starts
pub mod Headed
pub mod Beginnings
pub mod Later
pub mod Cut
pub mod Taking
pub mod Scanning
