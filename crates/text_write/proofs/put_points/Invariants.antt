-- `put_points`: after some turns what is left to write, laid over the present buffer, gives the whole.
use Prim.Native.Nat.{◌*◌}
use lib.ListN.{drop}
use Rattle.text_digits.proofs.Laws.Laying.{Laying}
use Rattle.text_sheet.specs.Sheet.{points}
use Rattle.text_sheet.proofs.Laws.Putting.{lines_of}
use Rattle.text_write.proofs.put_points.Given as goal

abbrev pub invariant-loop-k : goal.invariant-loop-k
invariant-loop-k l = Laying (lines_of points.show l.words) l.at l.initial.buffer (lines_of points.show (drop (3 * l.k) l.words)) l.place l.buffer
