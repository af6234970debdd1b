-- `relax` has taken the lesser way below i, and from i on the column is as it was.
use Rattle.cover_column.proofs.Laws.Columns.{Relaxing}
use Rattle.cover_column.proofs.relax.Given as goal

abbrev pub invariant-loop-i : goal.invariant-loop-i
invariant-loop-i l = Relaxing l.quarter l.table l.at l.m l.v l.xs l.ys l.zs l.initial.column l.i l.column
