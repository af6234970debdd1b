-- `is_way` reads inside the table, and what it compares tells whether the way makes up the least weight.
use borrow.Author.Rules.{rules}
use Rattle.cover_trace.proofs.Laws.Tries.{try_room, try_triangle_room, try_heavy, try_all}
use Rattle.cover_trace.proofs.is_way.Goals as goal

pub overflow_add-im : goal.overflow_add-im
overflow_add-im c = search (rules, try_room c.requires, c.row_of.ensures)

pub overflow_add-ik : goal.overflow_add-ik
overflow_add-ik c = search (rules, try_room c.requires, c.row_of-2.ensures)

pub overflow_add-mk : goal.overflow_add-mk
overflow_add-mk c = search (rules, try_room c.requires, c.row_of-3.ensures)

pub overflow_add-parts : goal.overflow_add-parts
overflow_add-parts c = search (rules, try_room c.requires, c.row_of.ensures)

pub offset_bounds-table-quarter : goal.offset_bounds-table-quarter
offset_bounds-table-quarter c = search (rules, try_room c.requires, c.row_of.ensures)

pub bounds-table-quarter : goal.bounds-table-quarter
bounds-table-quarter c = search (rules, try_room c.requires, c.row_of.ensures)

pub overflow_add-parts-2 : goal.overflow_add-parts-2
overflow_add-parts-2 c = search (rules, try_room c.requires, c.row_of-3.ensures)

pub offset_bounds-table-quarter-2 : goal.offset_bounds-table-quarter-2
offset_bounds-table-quarter-2 c = search (rules, try_room c.requires, c.row_of-3.ensures)

pub bounds-table-quarter-2 : goal.bounds-table-quarter-2
bounds-table-quarter-2 c = search (rules, try_room c.requires, c.row_of-3.ensures)

pub overflow_add-quarter : goal.overflow_add-quarter
overflow_add-quarter c = search (rules, try_room c.requires, c.row_of-2.ensures)

pub offset_bounds-table-quarter-3 : goal.offset_bounds-table-quarter-3
offset_bounds-table-quarter-3 c = search (rules, try_room c.requires, c.row_of-2.ensures)

pub bounds-table-quarter-3 : goal.bounds-table-quarter-3
bounds-table-quarter-3 c = search (rules, try_room c.requires, c.row_of-2.ensures)

pub returns-then-table-quarter : goal.returns-then-table-quarter
returns-then-table-quarter c = search try_heavy

pub triangle-requires : goal.triangle-requires
triangle-requires c = search try_triangle_room

pub overflow_add-result : goal.overflow_add-result
overflow_add-result c = search (rules, try_room c.requires, c.row_of-2.ensures)

pub offset_bounds-table-quarter-4 : goal.offset_bounds-table-quarter-4
offset_bounds-table-quarter-4 c = search (rules, try_room c.requires, c.row_of-2.ensures)

pub bounds-table-quarter-4 : goal.bounds-table-quarter-4
bounds-table-quarter-4 c = search (rules, try_room c.requires, c.row_of-2.ensures)

pub returns : goal.returns
returns c = search try_all
