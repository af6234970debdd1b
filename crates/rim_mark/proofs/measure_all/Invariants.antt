-- `measure_all` adds up ring after ring.
use Rattle.rim_mark.proofs.Laws.Measuring.{Measured, Every}
use Rattle.rim_mark.proofs.measure_all.Given as goal

abbrev pub invariant-loop-l : goal.invariant-loop-l
invariant-loop-l l = Measured Every l.grid l.rings l.lengths l.initial.runs l.l l.r l.runs
