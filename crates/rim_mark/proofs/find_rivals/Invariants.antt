-- `find_rivals` flags each loop that finds the seat of its piece taken, and the one that has it.
use lib.ListN.{length}
use Rattle.rim_mark.proofs.Laws.Rivals.{Matched}
use Rattle.rim_mark.proofs.find_rivals.Given as goal

abbrev pub invariant-loop-l : goal.invariant-loop-l
invariant-loop-l l = Matched l.homes l.n (length l.initial.firsts) (length l.initial.runs) l.l l.firsts l.runs
