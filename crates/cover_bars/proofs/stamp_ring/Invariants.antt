-- `stamp_ring` stamps vertex after vertex, and clears their rows.
use Rattle.cover_bars.proofs.Laws.Stamps.{Stamping}
use Rattle.cover_bars.proofs.stamp_ring.Given as goal

abbrev pub invariant-loop-j : goal.invariant-loop-j
invariant-loop-j l = Stamping l.ring l.initial.stamps l.base l.initial.rows l.j l.stamps l.rows
