-- `bars_from` walks the chain of the position's vertex from its head. The measure is the place itself, since a chain only goes back.
use Rattle.cover_bars.proofs.Laws.Walks.{walk_begins, walk_ends, walk_less, walk_passes, walk_bars}
use Rattle.cover_bars.proofs.bars_from.Goals as goal
use Rattle.cover_bars.proofs.bars_from.Goals.{then-base-s, else-base-s}

pub loop-e-init : goal.loop-e-init
loop-e-init c = search walk_begins

pub loop-e-smaller : goal.loop-e-smaller
loop-e-smaller c = search walk_less

pub loop-e-preserved : goal.loop-e-preserved
loop-e-preserved c =
    let g = c.loop-e.invariant in
    let m = c.loop-e-test.true in
    elim c.if-base-s.branch [ then-base-s w ↦ walk_bars g m w.rows-is w.if-base-s.true | else-base-s w ↦ walk_passes g m w.rows-is w.if-base-s.false ]

pub returns : goal.returns
returns c = search walk_ends
