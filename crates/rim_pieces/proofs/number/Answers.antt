-- `number` floods from the smallest triangle that has no number, piece after piece.
use Rattle.rim_pieces.proofs.Laws.Floods.{numbering_begins, numbering_passes, queue_in, spread_room, numbering_more, numbering_ends}
use Rattle.rim_pieces.proofs.number.Goals as goal

pub loop-t-init : goal.loop-t-init
loop-t-init c =
    numbering_begins c.requires c.clear.ensures.kept
    c.clear.ensures.clear

pub loop-t-preserved-then-pieces-t : goal.loop-t-preserved-then-pieces-t
loop-t-preserved-then-pieces-t c = search (numbering_passes, c.loop-t.invariant, c.requires, c.loop-t-test)

pub bounds-queue-count : goal.bounds-queue-count
bounds-queue-count c = search (queue_in, c.loop-t.invariant, c.requires, c.loop-t-test)

pub spread-count-requires : goal.spread-count-requires
spread-count-requires c = search (spread_room, c.loop-t.invariant, c.requires, c.loop-t-test)

pub loop-t-preserved : goal.loop-t-preserved
loop-t-preserved c =
    search
    (numbering_more, c.loop-t.invariant, c.requires, c.loop-t-test, c.spread-count)

pub returns : goal.returns
returns c = numbering_ends c.requires c.loop-t.invariant c.loop-t-test.false
