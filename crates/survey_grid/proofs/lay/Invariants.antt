-- `lay` lays word after word.
use Prim.Native.Nat.{ℕ, ◌<◌}
use mathlib.Core.Path.{◌≡◌}
use lib.IntN.{ℤ}
use lib.ListN.{length, get_or}
use Rattle.survey_grid.specs.Grid.{whole_of}
use Rattle.survey_grid.proofs.Laws.Laying.{Laid}
use Rattle.survey_grid.proofs.lay.Given as goal

abbrev pub invariant-loop-i : goal.invariant-loop-i
invariant-loop-i g l =
    (pitch : ℕ) → ((i : ℕ) (k : ℤ) → i < length l.words → goal.F-post g l.rule (get_or l.words i 0) k → k ≡ whole_of pitch (get_or l.words i 0)) → Laid pitch l.words l.initial.grid l.i l.grid
