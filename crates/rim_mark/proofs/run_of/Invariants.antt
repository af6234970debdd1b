-- `run_of` adds the closing stride and then one after the other.
use Rattle.rim_mark.proofs.Laws.Running.{Running}
use Rattle.rim_mark.proofs.run_of.Given as goal

abbrev pub invariant-loop-i : goal.invariant-loop-i
invariant-loop-i l = Running l.grid l.ring l.i l.run
