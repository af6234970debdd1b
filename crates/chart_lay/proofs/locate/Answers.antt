-- `locate` adds length after length.
use native.Mathlib.Omega.{arith}
use Rattle.chart_lay.proofs.Laws.Locating.{located_begins, located_ends, start_few, located_more}
use Rattle.chart_lay.proofs.locate.Goals as goal

pub loop-l-init : goal.loop-l-init
loop-l-init c = located_begins c.requires

pub overflow_add-r : goal.overflow_add-r
overflow_add-r c = omega (arith, start_few c.requires c.loop-l.invariant c.loop-l-test.true)

pub loop-l-preserved : goal.loop-l-preserved
loop-l-preserved c = located_more c.requires c.loop-l.invariant c.loop-l-test.true

pub returns : goal.returns
returns c = located_ends c.requires c.loop-l.invariant c.loop-l-test.false
