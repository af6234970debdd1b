-- `relax` has taken the lesser way below i, and from i on the column is as it was.
use native.Mathlib.Omega.{arith}
use Rattle.cover_column.proofs.Laws.Columns.{relaxing_begins, relaxing_more, relaxed}
use Rattle.cover_column.proofs.relax.Goals as goal

pub loop-i-init : goal.loop-i-init
loop-i-init c = search relaxing_begins

pub loop-i-preserved : goal.loop-i-preserved
loop-i-preserved c = relaxing_more c.requires c.loop-i.invariant (omega arith) c.by_way.ensures c.lesser.ensures

pub returns : goal.returns
returns c = relaxed c.requires c.loop-i.invariant (omega arith)
