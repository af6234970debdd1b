-- Loops filled, each by an allowed cover or by nothing, whoever laid it.
use Rattle.std.specs.Prelude.{◌≡◌, List, [], ◌∷◌, ◌++◌, ℕ, ◌-◌, ◌*◌, length}
use Rattle.surface_rules.specs.Threes.{threes}
use Rattle.cover_rules.specs.Covers.{Cover, Allowed, vertex_of}
use Rattle.cover_rules.specs.Sets.{Covered}
use Rattle.cover_bars.specs.Bars.{barred}

-- The loop with this ring is filled with the corners p: by nothing; or by the triangles of an allowed cover, in any order and each
-- begun at any corner, where the input has these corners and those were laid before.
pub data FillsRing (input laid ring : List ℕ) (p : List ℕ) : Type 0 where
  nothing : p ≡ [] → FillsRing input laid ring p
  cover : (c : Cover) → length p ≡ 3 * (length ring - 2) → Covered (length ring) (vertex_of ring) (threes p) c
      → Allowed (barred input laid ring) 0 (length ring - 1) c → FillsRing input laid ring p

-- each loop is filled, with what was laid before it
abbrev pub Filled : List ℕ → List ℕ → List (List ℕ) → List (List ℕ) → Type 0
Filled input laid [] [] = Unit {0}
Filled input laid [] (p ∷ ps) = ⊥
Filled input laid (r ∷ rings) [] = ⊥
Filled input laid (r ∷ rings) (p ∷ ps) = FillsRing input laid r p × Filled input (laid ++ p) rings ps
