-- `mark` marks the stretches that may have an allowed cover; the others have none.
use Rattle.cover_shut.proofs.Laws.Marks.{Marking}
use Rattle.cover_shut.proofs.mark.Given as goal

abbrev pub invariant-loop-i : goal.invariant-loop-i
invariant-loop-i l = Marking l.bars l.k l.words l.to l.i
