-- `spread` takes triangle after triangle out of the queue.
use Prim.Native.Nat.{◌-◌}
use lib.ListN.{length}
use Rattle.rim_pieces.specs.Workings.Flooding.{flooded}
use Rattle.rim_pieces.proofs.Laws.Floods.{Spreading}
use Rattle.rim_pieces.proofs.spread.Given as goal

abbrev pub invariant-loop-done : goal.invariant-loop-done
invariant-loop-done l = Spreading l.turns l.from l.p (flooded l.initial.queue l.count l.initial.pieces) l.done (flooded l.queue l.end l.pieces)

abbrev pub decreases-loop-done : goal.decreases-loop-done
decreases-loop-done l = length l.queue - l.done
