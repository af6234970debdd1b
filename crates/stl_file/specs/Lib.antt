-- Files of facets that are written: their bytes, what writing one answers and leaves, and what reading one back gives.
pub mod Bytes
pub mod Writing
pub mod Again
