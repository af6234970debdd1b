-- `sweep` offers every apex of a column from the last position down.
use Rattle.cover_table.proofs.Laws.Offers.{going_begins, row_there, row_down, going_room, going_on, going_ends}
use borrow.Author.Rules.{rules}
use Rattle.cover_table.proofs.sweep.Goals as goal

pub loop-m-init : goal.loop-m-init
loop-m-init c = search going_begins

pub offer-requires : goal.offer-requires
offer-requires c = let g = c.loop-m.invariant in search (going_room g, row_down g, rules)

pub overflow_sub-at : goal.overflow_sub-at
overflow_sub-at c = search row_there

pub loop-m-preserved : goal.loop-m-preserved
loop-m-preserved c = search going_on

pub returns : goal.returns
returns c = search going_ends
