-- `write_ring` lays the starts one by one, each behind those before it.
use borrow.Author.Rules.{rules}
use Rattle.loop_cut.proofs.Laws.Laid.{wrote_none, wrote_more, wrote_part}
use Rattle.loop_cut.proofs.write_ring.Goals as goal

pub loop-k-init : goal.loop-k-init
loop-k-init c = wrote_none _ _ _ _

pub loop-k-preserved : goal.loop-k-preserved
loop-k-preserved c = wrote_more _ _ _ _ _ _ c.loop-k.invariant c.loop-k-test.true (search rules)

pub returns : goal.returns
returns c = wrote_part _ _ _ _ _ _ _ _ c.requires c.loop-k.invariant c.loop-k-test.false
