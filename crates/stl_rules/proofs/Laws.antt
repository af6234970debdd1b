pub mod Uses
pub mod Files
pub mod Sizes
