-- `put_triangles`: after some turns what is left to write, laid over the present buffer, gives the whole.
use Prim.Native.Nat.{◌*◌}
use lib.ListN.{drop}
use Rattle.text_digits.proofs.Laws.Laying.{Laying}
use Rattle.text_sheet.specs.Sheet.{triangles}
use Rattle.text_sheet.proofs.Laws.Putting.{lines_of}
use Rattle.text_write.proofs.put_triangles.Given as goal

abbrev pub invariant-loop-k : goal.invariant-loop-k
invariant-loop-k l = Laying (lines_of triangles.show l.corners) l.at l.initial.buffer (lines_of triangles.show (drop (3 * l.k) l.corners)) l.place l.buffer
