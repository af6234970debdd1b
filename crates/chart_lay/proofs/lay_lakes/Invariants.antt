-- `lay_lakes` lays lake after lake.
use Rattle.chart_lay.proofs.Laws.Entering.{Sinking}
use Rattle.chart_lay.proofs.lay_lakes.Given as goal

abbrev pub invariant-loop-i : goal.invariant-loop-i
invariant-loop-i l = Sinking l.lakes l.initial.report l.from l.i l.report
