-- `bars_all` walks from position after position.
use Rattle.cover_bars.proofs.Laws.Rounds.{Rounding}
use Rattle.cover_bars.proofs.bars_all.Given as goal

abbrev pub invariant-loop-j : goal.invariant-loop-j
invariant-loop-j l = Rounding l.ring l.heads l.links l.ends l.stamps l.base l.rows l.j
