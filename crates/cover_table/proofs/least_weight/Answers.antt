-- `least_weight` fills the table, and reads the whole loop's place.
use Rattle.cover_table.proofs.Laws.Found.{place_in, castable, found_some, found_none}
use lib.Dec.{lit<}
use borrow.Author.Rules.{rules}
use Rattle.cover_table.proofs.least_weight.Goals as goal

pub overflow_add-least : goal.overflow_add-least
overflow_add-least c = search (rules, place_in c.requires (search c.fill.auto) c.fill.ensures c.row_of.ensures)

pub offset_bounds-table-table : goal.offset_bounds-table-table
offset_bounds-table-table c = search (rules, place_in c.requires (search c.fill.auto) c.fill.ensures c.row_of.ensures)

pub bounds-table-table : goal.bounds-table-table
bounds-table-table c = place_in c.requires (search c.fill.auto) c.fill.ensures c.row_of.ensures

pub float_to_int-result : goal.float_to_int-result
float_to_int-result c =
    let p = c.requires in
    castable p (search c.fill.auto) c.fill.ensures c.row_of.ensures p.0.barred p.0.barring _ (lit< tt)

pub returns-then-least : goal.returns-then-least
returns-then-least c = λ barred b. found_some c.requires (search c.fill.auto) c.fill.ensures c.row_of.ensures barred b _ (lit< tt) c.if-least.true

pub returns : goal.returns
returns c = λ barred b. found_none c.requires (search c.fill.auto) c.fill.ensures c.row_of.ensures barred b c.if-least.false
