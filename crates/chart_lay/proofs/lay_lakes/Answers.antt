-- `lay_lakes` lays lake after lake.
use Rattle.chart_lay.proofs.Laws.Entering.{sinking_begins, sinking_more}
use Rattle.chart_lay.proofs.lay_lakes.Goals as goal

pub loop-i-init : goal.loop-i-init
loop-i-init c = sinking_begins c.requires

pub loop-i-preserved : goal.loop-i-preserved
loop-i-preserved c = sinking_more c.requires c.loop-i.invariant c.loop-i-test.true c.lay_entry.ensures
