-- `pair_many` takes triangle after triangle, with all half-edges before them paired and chained, and comes to the end or to the first that stops.
use Prim.Native.Nat.{◌-◌}
use mathlib.Core.Path.{◌≡◌}
use lib.ListN.{length}
use Rattle.base_limits.specs.Limits as limits
use Rattle.check_pairs.specs.Workings.Triangles.{buckets}
use Rattle.check_pairs.proofs.Laws.Rounds.{Round}
use Rattle.check_pairs.proofs.pair_many.Given as goal

abbrev pub invariant-loop-i : goal.invariant-loop-i
invariant-loop-i l = Round buckets l.corners l.i l.heads l.links l.ends l.turns × (length l.turns ≡ length l.initial.turns) × (length l.links ≡ limits.corners) × (length l.ends ≡ limits.corners)

abbrev pub decreases-loop-i : goal.decreases-loop-i
decreases-loop-i l = length l.corners - l.i
