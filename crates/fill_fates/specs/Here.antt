-- The covers of a loop where it lies: its points are on this grid, the surface has the corners `input`, and `laid` are the corners of the
-- patches before it.
use Rattle.std.specs.Prelude.{List, ℕ, ◌-◌, ℤ, length}
use Rattle.cover_rules.specs.Covers.{Cover, Allowed, NoCover, Patch, weight}
use Rattle.cover_weight.specs.Edition.{naturals, tri_of, along}
use Rattle.cover_bars.specs.Bars.{barred}

-- a cover of the loop with this ring "without a barred diagonal"
abbrev pub AllowedHere : List ℕ → List ℕ → List ℕ → Cover → Type 0
AllowedHere input laid ring = Allowed (barred input laid ring) 0 (length ring - 1)

-- no cover is
abbrev pub NoneHere : List ℕ → List ℕ → List ℕ → Type 0
NoneHere input laid ring = NoCover (barred input laid ring) 0 (length ring - 1)

-- what a cover weighs
abbrev pub weight_here : List ℤ → List ℕ → Cover → ℕ
weight_here grid ring = weight naturals (tri_of (along grid ring)) 0 (length ring - 1)

-- the cover that "the patcher takes": the least allowed one, by the tie rule
abbrev pub PatchHere : List ℤ → List ℕ → List ℕ → List ℕ → Cover → Type 0
PatchHere grid input laid ring = Patch naturals (tri_of (along grid ring)) (barred input laid ring) 0 (length ring - 1)
