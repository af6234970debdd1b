-- `clear_sides` takes row after row's position and neighbours out, the two ends apart.
use Rattle.cover_bars.proofs.Laws.Sides.{Clearing}
use Rattle.cover_bars.proofs.clear_sides.Given as goal

abbrev pub invariant-loop-j : goal.invariant-loop-j
invariant-loop-j l = Clearing l.n l.initial.rows l.rows l.j
