-- `chain_laid` chains the first side of triangle after triangle.
use Rattle.cover_bars.proofs.Laws.Laying.{laying_begins, laying_ends, laying_more}
use Rattle.cover_bars.proofs.chain_laid.Goals as goal

pub loop-t-init : goal.loop-t-init
loop-t-init c = search laying_begins

pub loop-t-preserved : goal.loop-t-preserved
loop-t-preserved c = search laying_more

pub returns : goal.returns
returns c = search laying_ends
