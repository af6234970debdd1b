pub mod ForC
pub mod Texts
pub mod Prints
pub mod Facets
