-- `stamp_ring` stamps vertex after vertex, and clears their rows.
use borrow.Author.Rules.{rules}
use Rattle.cover_bars.proofs.Laws.Stamps.{stamp_begins, stamp_ends, stamp_more}
use Rattle.cover_bars.proofs.stamp_ring.Goals as goal

pub loop-j-init : goal.loop-j-init
loop-j-init c = stamp_begins c.requires

pub loop-j-preserved : goal.loop-j-preserved
loop-j-preserved c = stamp_more c.loop-j.invariant (search rules)

pub returns : goal.returns
returns c = search stamp_ends
