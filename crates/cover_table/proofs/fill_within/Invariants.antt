-- `fill_within` makes a loop's table column by column.
use lib.ListN.{length}
use Rattle.cover_column.specs.Workings.Columns.{quarter_of}
use Rattle.cover_table.specs.Workings.Table.{strips}
use Rattle.cover_table.proofs.Laws.Filling.{Filling}
use Rattle.cover_table.proofs.fill_within.Given as goal

abbrev pub invariant-loop-k : goal.invariant-loop-k
invariant-loop-k g l = Filling g.row.N (quarter_of l.initial.table) (length l.ring) l.px l.py l.pz l.bars l.initial.table l.k (strips l.xs l.ys l.zs l.column) l.table
