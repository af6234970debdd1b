-- `list` lays the triangle of the first apex, lists one part by a call and goes on with the other, each shorter than the whole.
use Prim.Native.Nat.{◌-◌}
use Rattle.cover_trace.proofs.Laws.Lists.{Going}
use Rattle.cover_trace.proofs.+list.Given as goal

abbrev pub invariant-loop-from : goal.invariant-loop-from
invariant-loop-from l = Going l.quarter l.table l.ring l.initial.out l.p l.i l.k l.out l.at l.from l.to

abbrev pub decreases-loop-from : goal.decreases-loop-from
decreases-loop-from l = l.to - l.from

abbrev pub decreases-list : goal.decreases-list
decreases-list l = l.k - l.i
