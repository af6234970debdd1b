-- `number_points`: after some turns the table has the digits of as many numbers.
use mathlib.Core.Path.{◌≡◌}
use lib.ListN.{length}
use Rattle.text_write.specs.Workings.Means.{Numbered}
use Rattle.text_write.proofs.number_points.Given as goal

abbrev pub invariant-loop-i : goal.invariant-loop-i
invariant-loop-i l = (length l.fours ≡ length l.initial.fours) × Numbered l.i l.fours
