-- `leading` goes on one by one, and those that it passed are quiet.
use Rattle.loop_leaders.specs.Workings.Leading.{Quiet}
use Rattle.loop_leaders.proofs.leading.Given as goal

abbrev pub invariant-loop-i : goal.invariant-loop-i
invariant-loop-i l = Quiet l.turns l.from l.i
