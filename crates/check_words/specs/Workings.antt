-- Definitions that serve the code: contracts of inner functions name them, and no promise of an entry point does.
pub mod Single
pub mod OnGrid
