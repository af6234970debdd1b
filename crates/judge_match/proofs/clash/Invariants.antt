-- The rows are gathered one after the other.
use Rattle.judge_match.proofs.Laws.Meets.{Gathered}
use Rattle.judge_match.proofs.clash.Given as goal

abbrev pub invariant-loop-j : goal.invariant-loop-j
invariant-loop-j l = Gathered l.has l.bars l.j l.both
