-- `locate` adds length after length.
use Rattle.chart_lay.proofs.Laws.Locating.{Located}
use Rattle.chart_lay.proofs.locate.Given as goal

abbrev pub invariant-loop-l : goal.invariant-loop-l
invariant-loop-l l = Located l.lengths l.initial.starts l.l l.r l.starts
