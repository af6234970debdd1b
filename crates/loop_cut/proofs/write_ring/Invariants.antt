-- `write_ring` lays the starts one by one, each behind those before it.
use Rattle.loop_cut.proofs.Laws.Laid.{Wrote}
use Rattle.loop_cut.proofs.write_ring.Given as goal

abbrev pub invariant-loop-k : goal.invariant-loop-k
invariant-loop-k l = Wrote l.corners l.e-items l.initial.rings l.from l.k l.rings
