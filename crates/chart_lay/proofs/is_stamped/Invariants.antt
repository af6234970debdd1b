-- `is_stamped` looks at vertex after vertex.
use Rattle.chart_lay.proofs.Laws.Stamping.{Unstamped}
use Rattle.chart_lay.proofs.is_stamped.Given as goal

abbrev pub invariant-loop-v : goal.invariant-loop-v
invariant-loop-v l = Unstamped l.ring l.stamps l.stamp l.v-index
