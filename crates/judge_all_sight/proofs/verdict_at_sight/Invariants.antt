-- `verdict_at_sight` judges rims, loops of three and long ones, one by one.
use Rattle.judge_all_sight.proofs.Laws.SightVerdict.{Going}
use Rattle.judge_all_sight.proofs.verdict_at_sight.Given as goal

abbrev pub invariant-loop-l : goal.invariant-loop-l
invariant-loop-l l = Going l.rings l.lengths l.marks l.states l.set l.l l.r l.at
