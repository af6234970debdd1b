-- `read_points` lays the numbers of one line after the other.
use Prim.Native.Nat.{◌≤◌}
use lib.ListN.{length, drop}
use Rattle.text_sheet.specs.Workings.Parse.{read_point}
use Rattle.text_sheet.proofs.Laws.Going.{Going, by_threes}
use Rattle.text_sheet.proofs.read_points.Given as goal

abbrev pub invariant-loop-i : goal.invariant-loop-i
invariant-loop-i l = Going by_threes read_point 29 l.n (drop l.at l.text) l.initial.words l.i (drop l.place l.text) l.words × (l.place ≤ length l.text)
