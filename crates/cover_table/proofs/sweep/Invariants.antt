-- `sweep` offers every apex of a column from the last position down.
use Rattle.cover_table.proofs.Laws.Offers.{Going}
use Rattle.cover_table.specs.Workings.Table.{strips}
use Rattle.cover_table.proofs.sweep.Given as goal

abbrev pub invariant-loop-m : goal.invariant-loop-m
invariant-loop-m l = Going l.quarter l.k l.bars (strips l.xs l.ys l.zs l.initial.column) l.initial.table l.m l.at l.column l.table
