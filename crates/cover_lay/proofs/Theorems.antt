-- What is laid for a loop, and its least weight, are determined.
pub use Rattle.cover_lay.proofs.Laws.Patches.{lays_once}
