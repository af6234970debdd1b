-- `measure` adds up ring after ring.
use Rattle.rim_mark.proofs.Laws.Measuring.{Measured, Numbered}
use Rattle.rim_mark.proofs.measure.Given as goal

abbrev pub invariant-loop-l : goal.invariant-loop-l
invariant-loop-l l = Measured (Numbered l.initial.runs) l.grid l.rings l.lengths l.initial.runs l.l l.r l.runs
