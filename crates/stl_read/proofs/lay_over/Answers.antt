-- `lay_over` lays item after item.
use Rattle.stl_read.proofs.Laws.Copying.{copying_begins, copying_more, copying_ends}
use Rattle.stl_read.proofs.lay_over.Goals as goal

pub loop-i-init : goal.loop-i-init
loop-i-init t c = copying_begins

pub loop-i-preserved : goal.loop-i-preserved
loop-i-preserved t c = copying_more c.requires c.loop-i-test.true c.index-from-i.is c.loop-i.invariant

pub returns : goal.returns
returns t c = copying_ends c.loop-i-test.false c.loop-i.invariant
