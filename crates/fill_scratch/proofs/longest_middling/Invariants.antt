-- `longest_middling` looks at each length: those below l are settled at sight or have at most so many edges.
use lib.ListN.{get_or}
use Prim.Native.Nat.{ℕ, ◌<◌, ◌≤◌}
use mathlib.Core.Logic.{◌⊎◌}
use Rattle.fill_scratch.specs.Workings.Rings.{SightAt}
use Rattle.fill_scratch.proofs.longest_middling.Given as goal

abbrev pub invariant-loop-l : goal.invariant-loop-l
invariant-loop-l l = (j : ℕ) → j < l.l → SightAt l.lengths l.marks j ⊎ (get_or l.lengths j 0 ≤ l.most)
