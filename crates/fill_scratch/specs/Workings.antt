-- Definitions that serve the code: contracts of inner functions name them, and no promise of an entry point does.
pub mod Rings
pub mod Tray
pub mod Scratch
pub mod Lent
