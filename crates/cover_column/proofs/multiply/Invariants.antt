-- `multiply` has the products of every position before i in the strips and in the row, and no weight there but nought for the side.
use Rattle.cover_column.proofs.Laws.Columns.{Multiplying}
use Rattle.cover_column.proofs.Laws.Copies.{Copying}
use Rattle.cover_column.proofs.multiply.Given as goal

abbrev pub invariant-loop-i : goal.invariant-loop-i
invariant-loop-i l = Multiplying l.k l.px l.py l.pz l.i l.xs l.ys l.zs l.column × Copying l.k l.quarter l.at l.px l.py l.pz l.initial.table l.i l.table
