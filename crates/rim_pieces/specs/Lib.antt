pub mod Pieces
pub mod Computed
pub mod Workings
