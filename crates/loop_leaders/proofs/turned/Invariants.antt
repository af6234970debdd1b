-- `turned` goes where the table leads, each time one turn nearer to the open edge.
use Prim.Native.Nat.{◌<◌}
use lib.ListN.{length}
use Rattle.loop_leaders.proofs.Laws.Jumps.{away, Jumps}
use Rattle.loop_leaders.proofs.turned.Given as goal

abbrev pub invariant-loop-e : goal.invariant-loop-e
invariant-loop-e l = Jumps l.turns l.f l.e × (l.e < length l.turns)

abbrev pub decreases-loop-e : goal.decreases-loop-e
decreases-loop-e l = away l.turns (length l.turns) l.e
