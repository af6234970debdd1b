-- `lay_others` walks along the loops of a piece that are no rims: it lays the tide pools on the way, and the lakes at the end.
use Prim.Native.Nat.{◌-◌}
use Rattle.rim_pieces.specs.Workings.Flooding.{none}
use Rattle.chart_lay.specs.Workings.Coast.{coast_of}
use Rattle.chart_lay.proofs.Laws.Walking as laws
use Rattle.chart_lay.proofs.lay_others.Given as goal

abbrev pub invariant-loop-l : goal.invariant-loop-l
invariant-loop-l l = laws.Walking (coast_of l.rings l.lengths l.starts l.links) l.stamps l.head l.initial.lakes l.initial.report l.stamp l.from l.lakes l.report l.at l.kept l.l

abbrev pub decreases-loop-l : goal.decreases-loop-l
decreases-loop-l l = none - l.l
