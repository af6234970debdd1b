-- `stamp_all` stamps vertex after vertex.
use Rattle.chart_lay.proofs.Laws.Stamping.{stamping_more}
use Rattle.chart_lay.proofs.stamp_all.Goals as goal

pub loop-v-preserved : goal.loop-v-preserved
loop-v-preserved c = stamping_more c.requires c.loop-v.invariant c.loop-v-test.true
