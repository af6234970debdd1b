-- `list_cycle` walks the cycle edge by edge until it comes to one that was walked, which is the first.
use Prim.Native.Nat.{◌+◌, ◌-◌}
use lib.ListN.{length}
use Rattle.loop_find.specs.Workings.Walking.{walk}
use Rattle.loop_find.proofs.Laws.Going.{Going}
use Rattle.loop_find.proofs.list_cycle.Given as goal

abbrev pub invariant-loop-turns : goal.invariant-loop-turns
invariant-loop-turns l = Going l.corners l.h (walk l.initial.turns l.initial.path l.initial.places l.initial.rings l.initial.lengths l.initial.firsts) (walk l.turns l.path l.places l.rings l.lengths l.firsts) l.at l.e

abbrev pub decreases-loop-turns : goal.decreases-loop-turns
decreases-loop-turns l = length l.corners - (l.at.vertices + l.at.path)
