-- `lay` lays record after record, and reads each weight before its place is written.
use Rattle.patch_records.proofs.Laws.Laying.{going_begins, going_on}
use Rattle.patch_records.proofs.lay.Goals as goal

pub loop-l-init : goal.loop-l-init
loop-l-init c = going_begins c.requires

pub loop-l-preserved : goal.loop-l-preserved
loop-l-preserved c = going_on c.requires c.loop-l.invariant c.loop-l-test.true c.row-kept.ensures c.lay_one.ensures
