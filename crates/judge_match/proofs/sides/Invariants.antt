-- One side is set after the other.
use Rattle.judge_match.proofs.Laws.Rows.{Sided}
use Rattle.judge_match.proofs.sides.Given as goal

abbrev pub invariant-loop-j : goal.invariant-loop-j
invariant-loop-j l = Sided l.has l.j
