-- `is_stamped` looks at vertex after vertex.
use Rattle.chart_lay.proofs.Laws.Stamping.{unstamped_begins, unstamped_more, stamp_found, no_stamp}
use Rattle.chart_lay.proofs.is_stamped.Goals as goal

pub loop-v-init : goal.loop-v-init
loop-v-init c = unstamped_begins

pub returns-then-stamps-v : goal.returns-then-stamps-v
returns-then-stamps-v c = stamp_found c.loop-v.invariant c.loop-v-test.true c.if-stamps-v.true

pub loop-v-preserved : goal.loop-v-preserved
loop-v-preserved c = unstamped_more c.loop-v.invariant c.loop-v-test.true c.if-stamps-v.false

pub returns : goal.returns
returns c = no_stamp c.loop-v.invariant c.loop-v-test.false
