-- The triangles' weights are added one after the other.
use mathlib.Core.Path.{◌≡◌}
use Rattle.std.specs.Slice.Iter.{chunks_exact_rest, chunks_exact_size}
use Rattle.cover_sum.proofs.Laws.Weighing.{Weighed}
use Rattle.cover_sum.proofs.weigh_set.Given as goal

abbrev pub invariant-loop-t : goal.invariant-loop-t
invariant-loop-t l = (chunks_exact_size l.t-iterator ≡ 3) × Weighed l.grid l.set (chunks_exact_rest l.t-iterator) l.total
