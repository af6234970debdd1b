-- `verdict_all` judges all loops, rims at sight and the others with one tray.
use Rattle.fill_scratch.specs.Workings.Lent.{trayed}
use Rattle.judge_all_middling.proofs.Laws.FullVerdict.{Going}
use Rattle.judge_all_middling.proofs.verdict_all.Given as goal

abbrev pub invariant-loop-l : goal.invariant-loop-l
invariant-loop-l l = Going l.grid l.corners l.rings l.lengths l.rims l.states l.set (trayed l.initial.tray) l.l l.r l.at l.e (trayed l.tray)
