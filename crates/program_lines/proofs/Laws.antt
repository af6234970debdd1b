-- The laws of what the programs print, each file for one idea.
pub mod Digits
pub mod Lines
pub mod Patches
pub mod Parts
pub mod Records
pub mod Widths
pub mod Answering
pub mod Nexts
pub mod Loops
pub mod Printing
