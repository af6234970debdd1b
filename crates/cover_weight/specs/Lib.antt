pub mod Weight
pub mod Edition
