-- The laws of what is printed, each file for one idea.
pub mod Fronts
pub mod Delivered
pub mod Printed
