-- The laws of printing a report, each file for one idea.
pub mod Telling
pub mod Taking
pub mod Widths
pub mod Told
pub mod Fronts
