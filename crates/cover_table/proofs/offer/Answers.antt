-- `offer` settles m..k and lets the stretches before it take the way by m.
use Rattle.cover_table.proofs.Laws.Offers.{offer_place, offer_relaxes, offer_skips, offer_relax_room}
use borrow.Author.Rules.{rules}
use Rattle.cover_table.proofs.offer.Goals as goal

pub overflow_add-table : goal.overflow_add-table
overflow_add-table c = search (rules, offer_place c.requires.0 c.row_of.ensures)

pub overflow_add-table-2 : goal.overflow_add-table-2
overflow_add-table-2 c = search (rules, offer_place c.requires.0 c.row_of.ensures)

pub offset_bounds-table-quarter : goal.offset_bounds-table-quarter
offset_bounds-table-quarter c = search (rules, offer_place c.requires.0 c.row_of.ensures)

pub bounds-table-quarter : goal.bounds-table-quarter
bounds-table-quarter c = offer_place c.requires.0 c.row_of.ensures

pub relax-requires : goal.relax-requires
relax-requires c = offer_relax_room c.settled-v.ensures c.row_of.ensures c.requires.1 c.requires.0

pub returns-then-v : goal.returns-then-v
returns-then-v c = offer_relaxes c.settled-v.ensures c.row_of.ensures c.requires.1 (search c.relax.auto) c.relax.ensures

pub returns-else-v : goal.returns-else-v
returns-else-v c = offer_skips c.settled-v.ensures c.row_of.ensures c.if-v.false
