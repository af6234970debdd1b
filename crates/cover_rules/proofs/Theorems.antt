-- What is true of covers: a loop has one patch at most, and a set of triangles is of one cover at most.
pub use Rattle.cover_rules.proofs.Laws.Best.{patch_unique}
pub use Rattle.cover_rules.proofs.Laws.Sets.{is_cover_once}
pub use Rattle.cover_rules.proofs.Laws.Closed.{covered_once}
pub use Rattle.cover_rules.proofs.Laws.Counted.{loop_triangles}
