-- `stamp_all` stamps vertex after vertex.
use Rattle.chart_lay.proofs.Laws.Stamping.{Stamping}
use Rattle.chart_lay.proofs.stamp_all.Given as goal

abbrev pub invariant-loop-v : goal.invariant-loop-v
invariant-loop-v l = Stamping l.ring l.initial.stamps l.stamp l.v-index l.stamps
