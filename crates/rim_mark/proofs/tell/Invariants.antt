-- `tell` marks a loop by whether it stands for its piece.
use Rattle.rim_mark.proofs.Laws.Telling.{Told}
use Rattle.rim_mark.proofs.tell.Given as goal

abbrev pub invariant-loop-l : goal.invariant-loop-l
invariant-loop-l l = Told l.homes l.best l.initial.marks l.n l.l l.marks
