-- The laws of weights, each file for one idea.
pub mod Sizes
pub mod Held
pub mod Near
pub mod Apart
pub mod Components
pub mod Weighed
pub mod Ring
pub mod Bounds
pub mod Naturals
pub mod Totals
pub mod Figures
pub mod Named
pub mod Strides
