-- `list_with` goes over all half-edges, walks a cycle where one leads, and passes over those that do not.
use lib.ListN.{length}
use Prim.Native.Nat.{◌-◌}
use Rattle.loop_find.specs.Workings.Walking.{walk}
use Rattle.loop_find.proofs.Laws.Through.{Through}
use Rattle.loop_find.proofs.list_with.Given as goal

abbrev pub invariant-loop-h : goal.invariant-loop-h
invariant-loop-h l = Through l.corners (walk l.initial.turns l.initial.path l.initial.places l.initial.rings l.initial.lengths l.initial.firsts) (walk l.turns l.path l.places l.rings l.lengths l.firsts) l.at l.h

abbrev pub decreases-loop-h : goal.decreases-loop-h
decreases-loop-h l = length l.corners - l.h
